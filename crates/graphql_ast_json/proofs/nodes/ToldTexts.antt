-- Of ToldErrors: what is told where a member is no text.
use Rattle.std.proofs.Common.{◌≡◌, ℕ, List, Option, Some, None, MatchOption, option_and_then, refl}
use Rattle.serde_json.specs.Data.{Data, null, boolean, number, string, array, object}
use Rattle.serde_json.specs.Find.{as_str}

pub no_text : (json : Option Data) (P : Type 0) (Q : List ℕ → Type 0) → ((text : List ℕ) → ¬ (json ≡ Some (string text))) → P →
    MatchOption (option_and_then as_str json) P Q
no_text None P Q none p = p
no_text (Some null) P Q none p = p
no_text (Some (boolean b)) P Q none p = p
no_text (Some (number n)) P Q none p = p
no_text (Some (string s)) P Q none p = absurd (none s refl)
no_text (Some (array js)) P Q none p = p
no_text (Some (object ms)) P Q none p = p
