-- Of Texts: an object is written member after member.
use Rattle.std.proofs.Common.{◌≡◌, ℕ, true, false, List, [], ◌∷◌, ◌++◌, Option, Some, None, refl, ap, subst, ◌∙◌, append_assoc, append-nil}
use Rattle.json.specs.Print.{quoted}
use Rattle.serde_json.specs.Data.{Data, object, Members, no_members, member}
use Rattle.serde_json.specs.Written.{compact_text, members_text}
use Rattle.json_text.specs.Texts.{WritesJson, optional_member, optional_text}

-- a name and its colon
abbrev pub key : List ℕ → List ℕ
key name = quoted name ++ 58 ∷ []

-- a key, its value, and what follows
keyed : (name value rest : List ℕ) → (key name ++ value) ++ rest ≡ quoted name ++ 58 ∷ (value ++ rest)
keyed name value rest = append_assoc (key name) value rest ∙ append_assoc (quoted name) (58 ∷ []) (value ++ rest)

-- what is so of texts whose first member is always there
abbrev pub IsBegunBy : List ℕ → (Members → Members) → Type 0
IsBegunBy text with_more = (name : List ℕ) (json : Data) (rest : Members) →
    text ++ members_text false (member name json rest) ≡ compact_text (object (with_more (member name json rest)))

-- what is so of texts behind such a member
abbrev pub IsLedBy : List ℕ → (Members → Members) → Type 0
IsLedBy text with_more = (rest : Members) → text ++ members_text true rest ≡ compact_text (object (with_more rest))

lead_text : (text : List ℕ) (with_more : Members → Members) (name : List ℕ) (json : Option Data) → IsBegunBy text with_more →
    IsBegunBy (text ++ optional_text (key name) json (44 ∷ [])) (λ rest. with_more (optional_member name json rest))
lead_text text with_more name None whole other value rest =
    ap (λ t. t ++ members_text false (member other value rest)) (append-nil text) ∙ whole other value rest
lead_text text with_more name (Some json) whole other value rest =
    append_assoc text (key name ++ (compact_text json ++ 44 ∷ [])) (members_text false (member other value rest))
    ∙ ap (λ t. text ++ t) (keyed name (compact_text json ++ 44 ∷ []) (members_text false (member other value rest))
    ∙ ap (λ t. quoted name ++ 58 ∷ t) (append_assoc (compact_text json) (44 ∷ []) (members_text false (member other value rest))))
    ∙ whole name json (member other value rest)

first_text : (text : List ℕ) (with_more : Members → Members) (name : List ℕ) (json : Data) → IsBegunBy text with_more →
    IsLedBy (text ++ (key name ++ compact_text json)) (λ rest. with_more (member name json rest))
first_text text with_more name json whole rest =
    append_assoc text (key name ++ compact_text json) (members_text true rest)
    ∙ ap (λ t. text ++ t) (keyed name (compact_text json) (members_text true rest)) ∙ whole name json rest

next_text : (text : List ℕ) (with_more : Members → Members) (name : List ℕ) (json : Data) → IsLedBy text with_more →
    IsLedBy (text ++ ((44 ∷ key name) ++ compact_text json)) (λ rest. with_more (member name json rest))
next_text text with_more name json whole rest =
    append_assoc text ((44 ∷ key name) ++ compact_text json) (members_text true rest)
    ∙ ap (λ t. text ++ 44 ∷ t) (keyed name (compact_text json) (members_text true rest)) ∙ whole (member name json rest)

behind_text : (text : List ℕ) (with_more : Members → Members) (name : List ℕ) (json : Option Data) → IsLedBy text with_more →
    IsLedBy (text ++ optional_text (44 ∷ key name) json []) (λ rest. with_more (optional_member name json rest))
behind_text text with_more name None whole rest = ap (λ t. t ++ members_text true rest) (append-nil text) ∙ whole rest
behind_text text with_more name (Some json) whole rest =
    ap (λ t. (text ++ ((44 ∷ key name) ++ t)) ++ members_text true rest) (append-nil (compact_text json))
    ∙ next_text text with_more name json whole rest

module _ {O : Type 0} {wrote : O → List ℕ → O → Type 0} (more : (a b c : O) (x y : List ℕ) → wrote a x b → wrote b y c → wrote a (x ++ y) c) where
  -- From a to b an object was begun, with members that may be there. Where one comes that is always there, these are its members, with what follows.
  pub record IsBegun (a b : O) (with_more : Members → Members) : Type 0 where
    pub text : List ℕ
    pub so_far : wrote a text b
    pub whole : IsBegunBy text with_more

  -- The same, where such a member was written.
  pub record IsLed (a b : O) (with_more : Members → Members) : Type 0 where
    pub text : List ℕ
    pub so_far : wrote a text b
    pub whole : IsLedBy text with_more

  pub begun : {a b : O} → wrote a (123 ∷ []) b → IsBegun a b (λ rest. rest)
  begun w = record { text = 123 ∷ []; so_far = w; whole = λ name json rest. refl }

  -- a member that may be there
  pub lead : {a b c : O} {with_more : Members → Members} (name : List ℕ) (json : Option Data) → IsBegun a b with_more →
      wrote b (optional_text (key name) json (44 ∷ [])) c → IsBegun a c (λ rest. with_more (optional_member name json rest))
  lead {a = a} {b = b} {c = c} {with_more = with_more} name json draft w = record {
    text = draft.text ++ optional_text (key name) json (44 ∷ []);
    so_far = more a b c _ _ draft.so_far w;
    whole = lead_text draft.text with_more name json draft.whole;
  }

  -- the first member that is always there
  pub first : {a b c : O} {with_more : Members → Members} (name : List ℕ) (json : Data) → IsBegun a b with_more →
      wrote b (key name ++ compact_text json) c → IsLed a c (λ rest. with_more (member name json rest))
  first {a = a} {b = b} {c = c} {with_more = with_more} name json draft w = record {
    text = draft.text ++ (key name ++ compact_text json);
    so_far = more a b c _ _ draft.so_far w;
    whole = first_text draft.text with_more name json draft.whole;
  }

  -- the same, with the brace before it
  pub opened : {a b : O} (name : List ℕ) (json : Data) → wrote a ((123 ∷ key name) ++ compact_text json) b → IsLed a b (λ rest. member name json rest)
  opened name json w = record {
    text = (123 ∷ key name) ++ compact_text json;
    so_far = w;
    whole = λ rest. ap (λ t. 123 ∷ t) (keyed name (compact_text json) (members_text true rest));
  }

  -- a member behind others
  pub next : {a b c : O} {with_more : Members → Members} (name : List ℕ) (json : Data) → IsLed a b with_more →
      wrote b ((44 ∷ key name) ++ compact_text json) c → IsLed a c (λ rest. with_more (member name json rest))
  next {a = a} {b = b} {c = c} {with_more = with_more} name json draft w = record {
    text = draft.text ++ ((44 ∷ key name) ++ compact_text json);
    so_far = more a b c _ _ draft.so_far w;
    whole = next_text draft.text with_more name json draft.whole;
  }

  -- a member behind others, if it is there
  pub behind : {a b c : O} {with_more : Members → Members} (name : List ℕ) (json : Option Data) → IsLed a b with_more →
      wrote b (optional_text (44 ∷ key name) json []) c → IsLed a c (λ rest. with_more (optional_member name json rest))
  behind {a = a} {b = b} {c = c} {with_more = with_more} name json draft w = record {
    text = draft.text ++ optional_text (44 ∷ key name) json [];
    so_far = more a b c _ _ draft.so_far w;
    whole = behind_text draft.text with_more name json draft.whole;
  }

  -- the object is whole
  pub ended : {a b c : O} {with_more : Members → Members} → IsLed a b with_more → wrote b (125 ∷ []) c →
      wrote a (compact_text (object (with_more no_members))) c
  ended {a = a} {b = b} {c = c} draft w = subst (λ t. wrote a t c) (draft.whole no_members) (more a b c _ _ draft.so_far w)

  -- What was written is this too.
  pub weaker : {a b : O} {P Q : Data → Type 0} → WritesJson wrote a b P → ((json : Data) → P json → Q json) → WritesJson wrote a b Q
  weaker w then = record { json = w.json; text = w.text; plain = w.plain; is = then w.json w.is }
