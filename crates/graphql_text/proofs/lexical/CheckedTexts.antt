-- Texts that pass a test: two of one text are the same, and a text is tested.
use Rattle.std.proofs.Common.{◌≡◌, ℕ, Bool, true, false, List, Option, Some, None, refl, ap, subst}
use Rattle.std.proofs.Math.Bool.{Bool-set}
use Rattle.graphql_text.specs.lexical.Literals.{Checked}

module _ {test : List ℕ → Bool} where
  abbrev with_text : (text : List ℕ) → test text ≡ true → Checked test
  with_text text valid = record { text = text; valid = valid }

  pub same_text : (a b : Checked test) → a.text ≡ b.text → a ≡ b
  same_text a b e =
      subst (λ (y : List ℕ). (v : test y ≡ true) → with_text a.text a.valid ≡ with_text y v) e
      (λ v. ap (with_text a.text) (Bool-set (test a.text) true a.valid v)) b.valid

  abbrev pub such_if : (text : List ℕ) (b : Bool) → test text ≡ b → Option (Checked test)
  such_if text true valid = Some (with_text text valid)
  such_if text false invalid = None

  found_if : (a : Checked test) (b : Bool) (e : test a.text ≡ b) → such_if a.text b e ≡ Some a
  found_if a true e = ap Some (same_text (with_text a.text e) a refl)
  found_if a false e = cc (e, a.valid)

  -- the text, where it passes the test
  unfoldable pub checked_text : List ℕ → Option (Checked test)
  checked_text text = such_if text (test text) refl

  pub checked_text_found : (a : Checked test) → checked_text a.text ≡ Some a
  unfolding checked_text
  checked_text_found a = found_if a (test a.text) refl
