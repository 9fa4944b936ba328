-- A piece that is copied with bytes behind it.
use Rattle.std.proofs.Common.{◌≡◌, ℕ, ◌+◌, ◌-◌, ◌≤◌, List, ◌++◌, length, take, ap, refl, sym, ◌∙◌, arith, length-take-le}
use Rattle.std.proofs.Math.Seq.{take-append-add}
use Rattle.std.proofs.lemmas.List.{take-append-le}
use Rattle.std.proofs.lemmas.Grind.{common_steps}
use Rattle.std.proofs.lemmas.Slice.{take-put_mid}
use borrow.Rule.Slice.PartMut.{put_mid, post_of}

length_put_mid : (at count : ℕ) (bytes part : List ℕ) → at + count ≤ length bytes → length part ≡ count → length (put_mid at count bytes part) ≡ length bytes
length_put_mid at count bytes part room whole = grind (arith, common_steps)

pub piece_fits : (padded text : List ℕ) → take (length text) padded ≡ text → length text ≤ length padded
piece_fits padded text front = grind (arith, common_steps)

-- what waits and the piece stand before the bytes behind it
pub padded_piece : (used size : ℕ) (bytes padded text : List ℕ) → used + size ≤ length bytes → length padded ≡ size → take (length text) padded ≡ text →
    take (used + length text) (put_mid used (used + size - used) bytes padded) ≡ take used bytes ++ text
padded_piece used size bytes padded text room whole front =
    let before : length (take used bytes) ≡ used = length-take-le used bytes (omega (arith, room)) in
    let behind : List ℕ = post_of used (used + size - used) bytes in
    ap (λ n. take (n + length text) (put_mid used (used + size - used) bytes padded)) (sym before)
    ∙ take-append-add (take used bytes) (padded ++ behind) (length text)
    ∙ ap (λ t. take used bytes ++ t) (take-append-le (length text) padded behind (piece_fits padded text front) ∙ front)

-- what stands at the front of some bytes is as much of them as it is long
pub front_by_length : (n : ℕ) (padded text : List ℕ) → n ≤ length padded → take n padded ≡ text → take (length text) padded ≡ text
front_by_length n padded text within front =
    let long : length text ≡ n = ap length (sym front) ∙ length-take-le n padded within in
    ap (λ m. take m padded) long ∙ front

-- words behind the piece take the place of what stands there
pub words_behind : (used size : ℕ) (bytes padded text words : List ℕ) → used + size + length words ≤ length bytes → length padded ≡ size →
    take (length text) padded ≡ text → let end = used + length text in
    take (end + length words) (put_mid end (end + length words - end) (put_mid used (used + size - used) bytes padded) words)
    ≡ (take used bytes ++ text) ++ words
words_behind used size bytes padded text words room whole front =
    let end = used + length text in
    let before = put_mid used (used + size - used) bytes padded in
    let long : length before ≡ length bytes = length_put_mid used (used + size - used) bytes padded (omega (arith, room)) (omega (arith, whole)) in
    let within : end ≤ length before = omega (arith, room, whole, long, piece_fits padded text front) in
    take-put_mid end (end + length words - end) before words (end + length words) refl within
    ∙ ap (λ t. t ++ words) (padded_piece used size bytes padded text (omega (arith, room)) whole front)
