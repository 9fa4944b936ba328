use Rattle.std.proofs.Common.{◌≡◌, ◌+◌, ◌-◌, ◌++◌, IsUtf8, arith, length, subst, sym, take}
use borrow.Rule.Slice.PartMut.{put_mid}
use Rattle.std.proofs.lemmas.Str.{IsUtf8-append, IsUtf8-had}
use Rattle.graphql_text.proofs.code.PaddedPieces.{padded_piece, piece_fits}
use Rattle.graphql_text.proofs.buffer.Buffer.add_padded.Goals as goal

pub invariant_of-self : goal.invariant_of-self
invariant_of-self g c =
    let s = c.args.self.now in
    let size = c.size-size.result in
    let padded = c.copy_to.new.bytes in
    let text = c.as_str.result.now in
    let whole : length padded ≡ size = omega arith in
    let front : take (length text) padded ≡ text = rw c.as_str.ensures c.copy_to.ensures in
    let joined : take (s.used + length text) (put_mid s.used (s.used + size - s.used) s.bytes padded) ≡ take s.used s.bytes ++ text =
    padded_piece s.used size s.bytes padded text (omega arith) whole front in
    record {
      fits = omega (arith, piece_fits padded text front);
      utf8 = ∣ subst IsUtf8 (sym joined) (IsUtf8-append _ _ (IsUtf8-had _ s.utf8) c.as_str.utf8) ∣₁;
    }

pub returns-then-size-used-clause-added : goal.returns-then-size-used-clause-added
returns-then-size-used-clause-added g c = λ _.
    let s = c.args.self.now in
    rw c.as_str.ensures
    (padded_piece s.used c.size-size.result s.bytes c.copy_to.new.bytes (g.P.Padded.text c.args.text.now) (omega arith) (omega arith) c.copy_to.ensures)
