-- How a node holds nodes again: what the checker asks for, so that `Shared<T>` may stand within its own `T`. In memory it
-- is a pointer to the block of an `Rc`, where the one `T` lies; contracts see that `T` alone.
use mathlib.Core.Path.{refl}
use mathlib.Core.Former.{Former, this, const, pair, via}
use base.Fml.{ftrue}
use base.Stored.{gnil}
use denote.Hole.Fix.{over}
use denote.HoleLaws.{Alike}
use denote.HolePlaces.{Recodes, struct_places, laid, one_value}
use denote.Memory.{part_of}
use denote.Model.Placed.{view_places}
use denote.Param.Weighed.{Weighed}
use denote.RattleType.{RattleType}
use denote.RawPtr.{Ptr}
use denote.Sharing.{nothing}
use Rattle.std.specs.declared.alloc.Global.{Global}
use Rattle.std.specs.contracts.alloc.Global as global
use Rattle.std.specs.contracts.impls.GlobalAllocator.TheImpl.{ghosts}
use Rattle.std.specs.declared.rc.Rc.{Rc}
use Rattle.std.specs.contracts.rc.Rc as rc
use Rattle.graphql_base.specs.declared.shared.Shared.TheInside.{Inside}
use Rattle.graphql_base.specs.declared.shared.Shared.TheView.{view, invariant}
use Rattle.graphql_base.specs.contracts.shared.Shared as shared
use Rattle.graphql_base.specs.contracts.shared.Shared.TheInside as inside

abbrev pub the_former : Former {0} → Former {0}
the_former value = value

abbrev pub the_weighed : {value : Former {0}} → Weighed value → Weighed (the_former value)
the_weighed weight = weight

-- the one field by its two parts: where the block lies, and the value there
abbrev parts : Former {0}
parts =
    via (pair (const Ptr) this) Inside (λ X s. (s.inner.ptr, s.inner.value)) (λ X p. record { inner = record { ptr = p.0; value = p.1 } })
    (λ X s. refl) (λ X p. refl)

-- the same block with another value
abbrev holding : {X Y : Type 0} → Rc X Global → Y → Rc Y Global
holding owner value = record { ptr = owner.ptr; value = value }

abbrev owner : RattleType → RattleType
owner R = rc.the_row R global.the_row ghosts

module _ (R S : RattleType) (h : R.Denot → S.Denot) where
  -- an `Rc` lies and is lent along h as its value does
  owners_alike : Alike R S h → Alike (owner R) (owner S) (λ it. holding it (h it.value))
  unfolding part_of
  owners_alike values = record {
    mir_same = λ i. (owner (one_value R (values.mir_same i) (λ _. ftrue) (λ _ _. nothing) gnil)).mir;
    own_same = λ it i. (owner (one_value R (values.mir_same i) (values.own_same it.value i) (values.shr_same it.value i) gnil)).own_val (holding it tt);
    shr_same = λ it i. (owner (one_value R (values.mir_same i) (values.own_same it.value i) (values.shr_same it.value i) gnil)).shr_at (holding it tt);
  }

  pub the_places : Alike R S h → Alike (shared.the_row R) (shared.the_row S) ((the_former this).map R.Denot S.Denot h)
  the_places values =
      let field =
      struct_places (inside.the_type R) (inside.the_type S) ((λ it. holding it (h it.value)), tt) _ (λ d. refl) refl
      (laid _ _ _ (owners_alike values), tt) in
      view_places parts this view (λ X Y k u. refl) (λ X u. refl) R.Denot S.Denot h (shared.the_row R).coded (shared.the_row S).coded
      (invariant R.Denot) (invariant S.Denot) (λ u p q. refl) (λ u p q. refl) (λ u e. tt) (λ u e. tt) (over (inside.the_row R)) (over (inside.the_row S)) field

  pub the_codes_placed : Recodes R S h → Recodes (shared.the_row R) (shared.the_row S) ((the_former this).map R.Denot S.Denot h)
  the_codes_placed codes value = codes value
