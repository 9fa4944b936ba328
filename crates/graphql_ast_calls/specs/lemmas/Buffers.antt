-- Lemmas, no definitions: how what went to a buffer follows on.
use Rattle.std.proofs.Common.{◌≡◌, ℕ, ◌+◌, ◌-◌, ◌^◌, ◌<◌, ◌≤◌, List, [], ◌++◌, length, take, drop}
use Rattle.std.proofs.Common.{refl, ap, sym, ◌∙◌, append_assoc, append-nil, arith, length-append}
use Rattle.std.proofs.lemmas.Grind.{common_steps}
use Rattle.graphql_ast_calls.specs.Buffers.{WentTo}

drop_more : (i j : ℕ) (xs : List ℕ) → drop (i + j) xs ≡ drop j (drop i xs)
drop_more i j xs = grind (arith, common_steps)

pub went_nothing : (a : List ℕ) (n : ℕ) → n < 2 ^ 64 → WentTo a n [] a n
went_nothing a n h = record {
  same_size = refl;
  counted = omega arith;
  fits = λ _. record { count = omega arith; front = sym (append-nil (take n a)); rest = refl };
}

pub went_idle : (a : List ℕ) (n : ℕ) (bytes : List ℕ) → length a < 2 ^ 63 → n ≡ 2 ^ 64 - 1 → WentTo a n bytes a n
went_idle a n bytes h e = record {
  same_size = refl;
  counted = omega arith;
  fits = λ k. absurd (omega arith);
}

pub went_more : (a b c : List ℕ) (n m p : ℕ) (x y : List ℕ) → WentTo a n x b m → WentTo b m y c p → WentTo a n (x ++ y) c p
went_more a b c n m p x y h k =
    let len = length-append x y in
    record {
      same_size = k.same_size ∙ h.same_size;
      counted = (let hc = h.counted in let kc = k.counted in omega (arith, len, hc, kc));
      fits = λ room.
          let first : n + length x ≤ length a = omega (arith, len) in
          let one = h.fits first in
          let second : m + length y ≤ length b = omega (arith, len, one.count, h.same_size) in
          let two = k.fits second in
          record {
            count = omega (arith, len, one.count, two.count);
            front = two.front ∙ ap (λ l. l ++ y) one.front ∙ append_assoc (take n a) x y;
            rest = two.rest ∙ ap (λ i. drop i b) two.count ∙ drop_more m (length y) b ∙ ap (drop (length y)) one.rest
                ∙ sym (drop_more m (length y) a) ∙ ap (λ i. drop i a) (sym two.count);
          };
    }
