-- How what parts spell follows on.
use Rattle.std.proofs.Common.{◌≡◌, ℕ, Bool, true, false, List, [], ◌∷◌, ◌++◌, refl, sym, ap, ◌∙◌, subst, append-nil, append_assoc, map}
use Rattle.graphql_text.specs.lexical.Literals.{IntText, FloatText, StringText}
use Rattle.graphql_base.specs.Names.{is_name}
use Rattle.graphql_text.specs.lexical.Tokens.{Punctuator, lbrace, rbrace, Token, Punctuation, Name, IntValue, FloatValue, StringValue}
use Rattle.graphql_text.specs.layout.Layout.{Item, Word, StringItem, StringRole, Space, Comma, Soft, Tight, Blank, Finish, Raise, Lower}
use Rattle.graphql_text.specs.layout.Layout.{flat, enclosed, each_after, last_comma, comma_group, curly_group}
use Rattle.graphql_text.proofs.parts.PartTokens.{Tail, list_tokens}
use Rattle.graphql_text.specs.layout.Spelling.{tokens_of_items, punctuator_leaves_room, leaves_room, StandsBefore, AreApart}

-- The items give the tokens: its words and strings in order, each of which may stand before what follows it.
abbrev pub Gives : List Item → List Token → Type 0
Gives [] tokens = tokens ≡ []
Gives (Word word ∷ items) [] = ⊥
Gives (Word word ∷ items) (token ∷ tokens) =
    (token ≡ word) × StandsBefore word items × Gives items tokens
Gives (StringItem value role ∷ items) [] = ⊥
Gives (StringItem value role ∷ items) (token ∷ tokens) =
    (token ≡ StringValue value) × StandsBefore (StringValue value) items × Gives items tokens
Gives (_ ∷ items) tokens = Gives items tokens

-- The words and strings of items that stand behind one another.
joined_items : (xs ys : List Item) → tokens_of_items (xs ++ ys) ≡ tokens_of_items xs ++ tokens_of_items ys
joined_items [] ys = refl
joined_items (Word token ∷ xs) ys = ap (λ ts. token ∷ ts) (joined_items xs ys)
joined_items (StringItem value role ∷ xs) ys = ap (λ ts. StringValue value ∷ ts) (joined_items xs ys)
joined_items (Space ∷ xs) ys = joined_items xs ys
joined_items (Comma ∷ xs) ys = joined_items xs ys
joined_items (Soft ∷ xs) ys = joined_items xs ys
joined_items (Tight ∷ xs) ys = joined_items xs ys
joined_items (Blank ∷ xs) ys = joined_items xs ys
joined_items (Finish ∷ xs) ys = joined_items xs ys
joined_items (Raise ∷ xs) ys = joined_items xs ys
joined_items (Lower ∷ xs) ys = joined_items xs ys

-- The items of a part have its tokens, in front of those that follow, and spell them before all items that leave room.
-- `opens` says that the part leaves room itself, or is nothing.
pub record Spelling (items : List Item) (tokens : Tail) (opens : Bool) : Type 0 where
  pub lists : (others : List Token) → tokens_of_items items ++ others ≡ tokens others
  pub gives : (rest : List Item) (others : List Token) → leaves_room rest ≡ true →
      Gives rest others → Gives (items ++ rest) (tokens others)
  pub room : opens ≡ true → (rest : List Item) → leaves_room rest ≡ true →
      leaves_room (items ++ rest) ≡ true

-- Items whose words are apart give the words and strings, in order, and nothing else.

pub apart_gives : (items : List Item) → AreApart items → Gives items (tokens_of_items items)
apart_gives [] apart = refl
apart_gives (Word token ∷ items) apart = (refl, apart.0, apart_gives items apart.1)
apart_gives (StringItem value role ∷ items) apart = (refl, apart.0, apart_gives items apart.1)
apart_gives (Space ∷ items) apart = apart_gives items apart
apart_gives (Comma ∷ items) apart = apart_gives items apart
apart_gives (Soft ∷ items) apart = apart_gives items apart
apart_gives (Tight ∷ items) apart = apart_gives items apart
apart_gives (Blank ∷ items) apart = apart_gives items apart
apart_gives (Finish ∷ items) apart = apart_gives items apart
apart_gives (Raise ∷ items) apart = apart_gives items apart
apart_gives (Lower ∷ items) apart = apart_gives items apart

pub gives_apart : (items : List Item) (tokens : List Token) → Gives items tokens →
    AreApart items × (tokens ≡ tokens_of_items items)
gives_apart [] tokens given = (tt, given)
gives_apart (Word word ∷ items) [] given = absurd given
gives_apart (Word word ∷ items) (token ∷ tokens) given =
    let (apart, same) = gives_apart items tokens given.2 in ((given.1, apart), cc (given.0, same))
gives_apart (StringItem value role ∷ items) [] given = absurd given
gives_apart (StringItem value role ∷ items) (token ∷ tokens) given =
    let (apart, same) = gives_apart items tokens given.2 in ((given.1, apart), cc (given.0, same))
gives_apart (Space ∷ items) tokens given = gives_apart items tokens given
gives_apart (Comma ∷ items) tokens given = gives_apart items tokens given
gives_apart (Soft ∷ items) tokens given = gives_apart items tokens given
gives_apart (Tight ∷ items) tokens given = gives_apart items tokens given
gives_apart (Blank ∷ items) tokens given = gives_apart items tokens given
gives_apart (Finish ∷ items) tokens given = gives_apart items tokens given
gives_apart (Raise ∷ items) tokens given = gives_apart items tokens given
gives_apart (Lower ∷ items) tokens given = gives_apart items tokens given

-- nothing
pub spelt_nothing : Spelling [] (λ ts. ts) true
spelt_nothing = record { lists = λ ts. refl; gives = λ rest ts r g. g; room = λ o rest r. r }

-- one part and then another
pub spelt_then : {xs ys : List Item} {v w : Tail} {o : Bool} → Spelling xs v o →
    Spelling ys w true → Spelling (xs ++ ys) (λ ts. v (w ts)) o
spelt_then {xs} {ys} {v} {w} a b = record {
  lists = λ ts.
      ap (λ l. l ++ ts) (joined_items xs ys) ∙ append_assoc (tokens_of_items xs) (tokens_of_items ys) ts
      ∙ ap (λ l. tokens_of_items xs ++ l) (b.lists ts) ∙ a.lists (w ts);
  gives =
      λ rest ts r g. subst (λ l. Gives l (v (w ts))) (sym (append_assoc xs ys rest)) (a.gives (ys ++ rest) (w ts) (b.room refl rest r) (b.gives rest ts r g));
  room =
      λ o rest r. subst (λ l. leaves_room l ≡ true) (sym (append_assoc xs ys rest)) (a.room o (ys ++ rest) (b.room refl rest r));
}

-- a punctuator before a part
pub spelt_mark : {xs : List Item} {w : Tail} {o : Bool} (mark : Punctuator) → Spelling xs w o →
    Spelling (Word (Punctuation mark) ∷ xs) (λ ts. Punctuation mark ∷ w ts) (punctuator_leaves_room mark)
spelt_mark mark a =
    record { lists = λ ts. ap (λ l. Punctuation mark ∷ l) (a.lists ts); gives = λ rest ts r g. (refl, tt, a.gives rest ts r g); room = λ o rest r. o }

-- a word or a name before a part
pub spelt_word : {xs : List Item} {w : Tail} (text : List ℕ) → is_name text ≡ true →
    Spelling xs w true → Spelling (Word (Name text) ∷ xs) (λ ts. Name text ∷ w ts) false
spelt_word text is a =
    record {
      lists = λ ts. ap (λ l. Name text ∷ l) (a.lists ts);
      gives = λ rest ts r g. (refl, (is, a.room refl rest r), a.gives rest ts r g);
      room = λ o rest r. cc;
    }

pub spelt_int : {xs : List Item} {w : Tail} (int : IntText) → Spelling xs w true →
    Spelling (Word (IntValue int.text) ∷ xs) (λ ts. IntValue int.text ∷ w ts) false
spelt_int int a =
    record {
      lists = λ ts. ap (λ l. IntValue int.text ∷ l) (a.lists ts);
      gives = λ rest ts r g. (refl, (int.valid, a.room refl rest r), a.gives rest ts r g);
      room = λ o rest r. cc;
    }

pub spelt_float : {xs : List Item} {w : Tail} (float : FloatText) → Spelling xs w true →
    Spelling (Word (FloatValue float.text) ∷ xs) (λ ts. FloatValue float.text ∷ w ts) false
spelt_float float a =
    record {
      lists = λ ts. ap (λ l. FloatValue float.text ∷ l) (a.lists ts);
      gives = λ rest ts r g. (refl, (float.valid, a.room refl rest r), a.gives rest ts r g);
      room = λ o rest r. cc;
    }

pub spelt_string : {xs : List Item} {w : Tail} (value : StringText) (role : StringRole) →
    Spelling xs w true →
    Spelling (StringItem value.text role ∷ xs) (λ ts. StringValue value.text ∷ w ts) false
spelt_string value role a =
    record {
      lists = λ ts. ap (λ l. StringValue value.text ∷ l) (a.lists ts);
      gives = λ rest ts r g. (refl, (value.valid, a.room refl rest r), a.gives rest ts r g);
      room = λ o rest r. cc;
    }

-- a separator or a mark before a part
pub spelt_space : {xs : List Item} {w : Tail} {o : Bool} → Spelling xs w o →
    Spelling (Space ∷ xs) w true
spelt_space a = record { lists = a.lists; gives = a.gives; room = λ o rest r. refl }

pub spelt_comma : {xs : List Item} {w : Tail} {o : Bool} → Spelling xs w o →
    Spelling (Comma ∷ xs) w true
spelt_comma a = record { lists = a.lists; gives = a.gives; room = λ o rest r. refl }

pub spelt_soft : {xs : List Item} {w : Tail} {o : Bool} → Spelling xs w o →
    Spelling (Soft ∷ xs) w true
spelt_soft a = record { lists = a.lists; gives = a.gives; room = λ o rest r. refl }

pub spelt_blank : {xs : List Item} {w : Tail} {o : Bool} → Spelling xs w o →
    Spelling (Blank ∷ xs) w true
spelt_blank a = record { lists = a.lists; gives = a.gives; room = λ o rest r. refl }

pub spelt_tight : {xs : List Item} {w : Tail} {o : Bool} → Spelling xs w o →
    Spelling (Tight ∷ xs) w o
spelt_tight a = record { lists = a.lists; gives = a.gives; room = a.room }

pub spelt_finish : {xs : List Item} {w : Tail} {o : Bool} → Spelling xs w o →
    Spelling (Finish ∷ xs) w o
spelt_finish a = record { lists = a.lists; gives = a.gives; room = a.room }

pub spelt_raise : {xs : List Item} {w : Tail} {o : Bool} → Spelling xs w o →
    Spelling (Raise ∷ xs) w o
spelt_raise a = record { lists = a.lists; gives = a.gives; room = a.room }

pub spelt_lower : {xs : List Item} {w : Tail} {o : Bool} → Spelling xs w o →
    Spelling (Lower ∷ xs) w o
spelt_lower a = record { lists = a.lists; gives = a.gives; room = a.room }

-- a part that is known to leave room, where that isn't asked
pub spelt_weaker : {xs : List Item} {w : Tail} {o : Bool} → Spelling xs w o → Spelling xs w false
spelt_weaker a = record { lists = a.lists; gives = a.gives; room = λ o rest r. cc }

pub spelt_enclosed : {xs : List Item} {w : Tail} {o : Bool} → Spelling xs w o →
    Spelling (enclosed xs) w o
spelt_enclosed a = spelt_raise (spelt_then a (spelt_lower spelt_nothing))

-- Parts that are always flat.

room_flat : (xs rest : List Item) → leaves_room (flat xs ++ rest) ≡ leaves_room (xs ++ rest)
unfolding flat
room_flat [] rest = refl
room_flat (Word (Punctuation mark) ∷ xs) rest = refl
room_flat (Word (Name text) ∷ xs) rest = refl
room_flat (Word (IntValue text) ∷ xs) rest = refl
room_flat (Word (FloatValue text) ∷ xs) rest = refl
room_flat (Word (StringValue text) ∷ xs) rest = refl
room_flat (StringItem value role ∷ xs) rest = refl
room_flat (Space ∷ xs) rest = refl
room_flat (Comma ∷ xs) rest = refl
room_flat (Soft ∷ xs) rest = refl
room_flat (Tight ∷ xs) rest = room_flat xs rest
room_flat (Blank ∷ xs) rest = refl
room_flat (Finish ∷ xs) rest = room_flat xs rest
room_flat (Raise ∷ xs) rest = room_flat xs rest
room_flat (Lower ∷ xs) rest = room_flat xs rest

stands_flat : (t : Token) (xs rest : List Item) → StandsBefore t (xs ++ rest) →
    StandsBefore t (flat xs ++ rest)
stands_flat (Punctuation mark) xs rest h = tt
stands_flat (Name text) xs rest h = (h.0, room_flat xs rest ∙ h.1)
stands_flat (IntValue text) xs rest h = (h.0, room_flat xs rest ∙ h.1)
stands_flat (FloatValue text) xs rest h = (h.0, room_flat xs rest ∙ h.1)
stands_flat (StringValue text) xs rest h = (h.0, room_flat xs rest ∙ h.1)

gives_flat : (xs rest : List Item) (ts : List Token) → Gives (xs ++ rest) ts →
    Gives (flat xs ++ rest) ts
unfolding flat
gives_flat [] rest ts g = g
gives_flat (Word t ∷ xs) rest [] g = g
gives_flat (Word t ∷ xs) rest (u ∷ ts) g =
    (g.0, stands_flat t xs rest g.1, gives_flat xs rest ts g.2)
gives_flat (StringItem value role ∷ xs) rest [] g = g
gives_flat (StringItem value role ∷ xs) rest (u ∷ ts) g =
    (g.0, (g.1.0, room_flat xs rest ∙ g.1.1), gives_flat xs rest ts g.2)
gives_flat (Space ∷ xs) rest ts g = gives_flat xs rest ts g
gives_flat (Comma ∷ xs) rest ts g = gives_flat xs rest ts g
gives_flat (Soft ∷ xs) rest ts g = gives_flat xs rest ts g
gives_flat (Tight ∷ xs) rest ts g = gives_flat xs rest ts g
gives_flat (Blank ∷ xs) rest ts g = gives_flat xs rest ts g
gives_flat (Finish ∷ xs) rest ts g = gives_flat xs rest ts g
gives_flat (Raise ∷ xs) rest ts g = gives_flat xs rest ts g
gives_flat (Lower ∷ xs) rest ts g = gives_flat xs rest ts g

tokens_flat : (xs : List Item) → tokens_of_items (flat xs) ≡ tokens_of_items xs
unfolding flat
tokens_flat [] = refl
tokens_flat (Word token ∷ xs) = ap (λ ts. token ∷ ts) (tokens_flat xs)
tokens_flat (StringItem value role ∷ xs) = ap (λ ts. StringValue value ∷ ts) (tokens_flat xs)
tokens_flat (Space ∷ xs) = tokens_flat xs
tokens_flat (Comma ∷ xs) = tokens_flat xs
tokens_flat (Soft ∷ xs) = tokens_flat xs
tokens_flat (Tight ∷ xs) = tokens_flat xs
tokens_flat (Blank ∷ xs) = tokens_flat xs
tokens_flat (Finish ∷ xs) = tokens_flat xs
tokens_flat (Raise ∷ xs) = tokens_flat xs
tokens_flat (Lower ∷ xs) = tokens_flat xs

-- on one line the same tokens are spelled
pub spelt_flat : {xs : List Item} {w : Tail} {o : Bool} → Spelling xs w o → Spelling (flat xs) w o
spelt_flat {xs} {w} a = record {
  lists = λ ts. ap (λ l. l ++ ts) (tokens_flat xs) ∙ a.lists ts;
  gives = λ rest ts r g. gives_flat xs rest (w ts) (a.gives rest ts r g);
  room = λ o rest r. room_flat xs rest ∙ a.room o rest r;
}

-- Groups.

-- each part spells its tokens
pub data Row : List (List Item) → Tail → Type 0 where
  no_row : Row [] (λ ts. ts)
  row_more : {x : List Item} {xs : List (List Item)} {v w : Tail} → Spelling x v false →
      Row xs w → Row (x ∷ xs) (λ ts. v (w ts))

-- the parts of a list
pub row_of : {A : Type 0} {shape : A → List Item} {w : A → Tail} →
    ((a : A) → Spelling (shape a) (w a) false) → (more : List A) →
    Row (map shape more) (list_tokens w more)
row_of list_of [] = no_row
row_of list_of (a ∷ more) = row_more (list_of a) (row_of list_of more)

-- parts with a separator before each
spelt_rest : {xs : List (List Item)} {w : Tail} (other : List Item) →
    ((x : List Item) (v : Tail) → Spelling x v false → Spelling (other ++ x) v true) →
    {x : List Item} {v : Tail} → Spelling x v false → Row xs w → Spelling (each_after other other (x ∷ xs)) (λ ts. v (w ts)) true
unfolding each_after
spelt_rest other next a no_row = spelt_then (next _ _ a) spelt_nothing
spelt_rest other next a (row_more b bs) = spelt_then (next _ _ a) (spelt_rest other next b bs)

-- the first one has a lead of its own
spelt_each : {xs : List (List Item)} {w : Tail} (lead other : List Item) {o : Bool} →
    ((x : List Item) (v : Tail) → Spelling x v false → Spelling (lead ++ x) v o) →
    ((x : List Item) (v : Tail) → Spelling x v false → Spelling (other ++ x) v true) →
    {x : List Item} {v : Tail} → Spelling x v false → Row xs w → Spelling (each_after lead other (x ∷ xs)) (λ ts. v (w ts)) o
unfolding each_after
spelt_each lead other first next a no_row = spelt_then (first _ _ a) spelt_nothing
spelt_each lead other first next a (row_more b bs) =
    spelt_then (first _ _ a) (spelt_rest other next b bs)

spelt_last_comma : (broken : Bool) → Spelling (last_comma broken) (λ ts. ts) true
spelt_last_comma true = spelt_comma spelt_nothing
spelt_last_comma false = spelt_nothing

-- a comma group spells its brackets and, between them, its parts
pub spelt_comma_group :
    {xs : List (List Item)} {w : Tail} (opening closing : Punctuator) (broken : Bool) →
    punctuator_leaves_room closing ≡ true → Row xs w →
    Spelling (comma_group opening closing broken xs) (λ ts. Punctuation opening ∷ w (Punctuation closing ∷ ts)) (punctuator_leaves_room opening)
spelt_comma_group opening closing broken closes no_row =
    spelt_mark opening (spelt_mark closing spelt_nothing)
spelt_comma_group opening closing broken closes (row_more a more) =
    spelt_mark opening (spelt_then
    (spelt_enclosed (spelt_then
    (spelt_each (Tight ∷ []) (Comma ∷ Soft ∷ []) (λ x v. spelt_tight) (λ x v a. spelt_comma (spelt_soft a)) a more)
    (spelt_last_comma broken)))
    (spelt_tight (spelt_closing closing closes)))
  where
    spelt_closing : (closing : Punctuator) → punctuator_leaves_room closing ≡ true →
        Spelling (Word (Punctuation closing) ∷ []) (λ ts. Punctuation closing ∷ ts) true
    spelt_closing closing closes =
        subst (Spelling (Word (Punctuation closing) ∷ []) (λ ts. Punctuation closing ∷ ts)) closes (spelt_mark closing spelt_nothing)

-- a curly group spells its braces and, between them, its parts
pub spelt_curly_group : {xs : List (List Item)} {w : Tail} → Row xs w →
    Spelling (curly_group xs) (λ ts. Punctuation lbrace ∷ w (Punctuation rbrace ∷ ts)) true
spelt_curly_group no_row = spelt_mark lbrace (spelt_mark rbrace spelt_nothing)
spelt_curly_group (row_more a more) =
    spelt_mark lbrace (spelt_then
    (spelt_enclosed (spelt_each (Soft ∷ []) (Soft ∷ []) (λ x v. spelt_soft) (λ x v. spelt_soft) a more))
    (spelt_soft (spelt_mark rbrace spelt_nothing)))

-- what a part spells by itself
pub spelt_alone : {items : List Item} {tokens : List Token → List Token} {opens : Bool} → Spelling items tokens opens → Gives items (tokens [])
spelt_alone {items} {tokens} spelling = subst (λ l. Gives l (tokens [])) (append-nil items) (spelling.gives [] [] refl refl)
