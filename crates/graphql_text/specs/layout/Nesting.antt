-- How many groups stand in one another.
use Rattle.std.specs.Prelude.{ℕ, ◌+◌, ◌-◌, max, List, [], ◌∷◌}
use Rattle.graphql_text.specs.layout.Layout.{Item, Raise, Lower}

-- The greatest number of Raise marks that are open at one place of the items.
-- Behind a Raise one more is open, behind a Lower one fewer.
unfoldable pub deepest : List Item → ℕ
deepest [] = 0
deepest (Raise ∷ items) = deepest items + 1
deepest (Lower ∷ items) = deepest items - 1
deepest (_ ∷ items) = deepest items

-- A group that isn't empty nests one more than the greatest of its items.
abbrev pub group_nesting : List ℕ → ℕ
group_nesting [] = 0
group_nesting (n ∷ ns) = max (n + 1) (group_nesting ns)
