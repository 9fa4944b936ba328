use Rattle.std.proofs.Common.{[], ◌∷◌, refl}
use Rattle.graphql_text.specs.layout.Layout.{Space, Word}
use Rattle.graphql_text.specs.lexical.Tokens.{lbrace, rbrace, Punctuation}
use Rattle.graphql_text.proofs.code.WritingSteps.{writes_then}
use Rattle.graphql_executable.proofs.layout.SelectionShapes.{empty_inline_shape, plain_field_shape, spread_shape}
use Rattle.graphql_executable.proofs.selection.print.write_leaf.Goals as goal

pub returns-in-Field-clause-written : goal.returns-in-Field-clause-written
returns-in-Field-clause-written g c =
    let none = rw c.in-Field.is at c.requires.leaf in
    rw (c.in-Field.is, plain_field_shape c.in-Field.field none) (rw c.deref.ensures at c.write_field_head.ensures.written)

pub returns-in-FragmentSpread-clause-written : goal.returns-in-FragmentSpread-clause-written
returns-in-FragmentSpread-clause-written g c =
    rw (c.in-FragmentSpread.is, spread_shape c.in-FragmentSpread.spread) (rw c.deref-in-FragmentSpread.ensures at c.write_at.ensures.written)

pub returns-in-InlineFragment-clause-written : goal.returns-in-InlineFragment-clause-written
returns-in-InlineFragment-clause-written g c =
    let none = rw c.in-InlineFragment.is at c.requires.leaf in
    let head = rw c.deref-in-InlineFragment.ensures at c.write_inline_fragment_head.ensures.written in
    rw (c.in-InlineFragment.is, empty_inline_shape c.in-InlineFragment.fragment none)
    (writes_then g.met.O.Target.more head (c.write_words.ensures.items _ _ (Space ∷ Word (Punctuation lbrace) ∷ Word (Punctuation rbrace) ∷ []) refl))
