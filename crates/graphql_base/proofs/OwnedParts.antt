-- How a struct without data and a pair are made of what their parts own. Assumes `Logic`.
use Rattle.std.proofs.Common.{List, [], ◌∷◌, refl}
use seplogic.Ra.Ura.{Ura}
use mir.Val.{Val, vstruct, vcons, vnil}
use types.Logic.{Logic}
use types.Kit.{Goal, Step, step, Item, ‵, ◌$◌, move, fjoin, fpack, feq_i}
use denote.RattleType.{RattleType, Valss}
use denote.Steps.{nothing}
use denote.Struct.Struct.{Shape, Struct, within}

abbrev pub of_fields : List RattleType → Shape
of_fields fields = record { name = []; args = []; types = []; fields = fields }

abbrev pub unit_val : Val
unit_val = vstruct vnil

abbrev pub pair_val : Val → Val → Val
pair_val u v = vstruct (vcons u (vcons v vnil))

module _ {M : Type 1} {𝓤 : Ura M} {𝓛 : Logic 𝓤} {K : Type 0} {Γ : List (Item 𝓤)} {G : Goal 𝓤 𝓛.H} where
  pub makes_unit : K → Step K 𝓛 (‵ ((Struct (of_fields [])).own_val tt (unit_val ∷ [])) ∷ Γ) G Γ G
  makes_unit t = step (λ rest.
      nothing t $ feq_i t (List Val) (unit_val ∷ []) (unit_val ∷ []) refl $ fjoin t $ fpack t (Valss []) (within (of_fields []) tt (unit_val ∷ [])) tt $ rest)

  pub makes_pair : K → (R S : RattleType) (x : R.Denot) (y : S.Denot) (u v : Val)
      → Step K 𝓛 (‵ ((Struct (of_fields (R ∷ S ∷ []))).own_val (x, (y, tt)) (pair_val u v ∷ [])) ∷ Γ) G
      (‵ (R.own_val x (u ∷ [])) ∷ ‵ (S.own_val y (v ∷ [])) ∷ Γ) G
  makes_pair t R S x y u v = step (λ rest.
      nothing t $ move t (2 ∷ 0 ∷ []) $ fjoin t $ move t (1 ∷ 0 ∷ []) $ fjoin t $ feq_i t (List Val) (pair_val u v ∷ []) (pair_val u v ∷ []) refl $ fjoin t $
      fpack t (Valss (R ∷ S ∷ [])) (within (of_fields (R ∷ S ∷ [])) (x, (y, tt)) (pair_val u v ∷ [])) (u ∷ [], (v ∷ [], tt)) $ rest)
