-- What a print wrote into a buffer.
use Rattle.std.proofs.Common.{◌≡◌, ℕ, ◌+◌, ◌-◌, ◌^◌, ◌<◌, ◌≤◌, List, ◌++◌, length, drop, ap, sym, ◌∙◌, arith}
use Rattle.std.proofs.lemmas.Grind.{common_steps}
use Rattle.std.proofs.lemmas.List.{take-append-drop}
use Rattle.std.proofs.lemmas.Slice.{drop-put_mid, take-put_mid}
use borrow.Rule.Slice.PartMut.{put_mid}
use Rattle.graphql_ast_calls.specs.Buffers.{WentTo, told_length}
use Rattle.graphql_ast_calls.specs.Messages.{Holds}

pub went_inside : (a bytes : List ℕ) (n m : ℕ) → m ≡ told_length (n + length bytes) → m ≤ length a → length a < 2 ^ 63 →
    WentTo a n bytes (put_mid n (m - n) a bytes) m
went_inside a bytes n m e h k =
    let exact : m ≡ n + length bytes = omega arith in
    record {
      same_size = grind (arith, common_steps);
      counted = e;
      fits = λ _. record {
        count = exact;
        front = take-put_mid n (m - n) a bytes m exact (omega arith);
        rest = drop-put_mid n (m - n) a bytes m (omega arith) (omega arith) (omega arith);
      };
    }

pub holds_all : (old new bytes : List ℕ) (m : ℕ) → WentTo old 0 bytes new m → m ≤ length old → length old < 2 ^ 63 → Holds old new m bytes
holds_all old new bytes m went h k =
    let c = went.counted in
    let room : 0 + length bytes ≤ length old = omega (arith, c) in
    let all = went.fits room in
    let exact : m ≡ length bytes = omega (arith, all.count) in
    record {
      count = exact;
      stand = sym (take-append-drop m new) ∙ ap (λ l. l ++ drop m new) all.front ∙ ap (λ l. bytes ++ l) all.rest ∙ ap (λ i. bytes ++ drop i old) exact;
    }

pub is_longer : (old new bytes : List ℕ) (m : ℕ) → WentTo old 0 bytes new m → length old < m → length old < length bytes
is_longer old new bytes m went h = let c = went.counted in omega (arith, c)
