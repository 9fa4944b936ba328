use Rattle.std.proofs.Common.{◌≡◌, ◌∙◌, IsUtf8, append_assoc, arith, length, subst, sym, take}
use Rattle.std.proofs.lemmas.Str.{IsUtf8-append, IsUtf8-had}
use Rattle.graphql_text.proofs.code.PaddedPieces.{piece_fits, words_behind}
use Rattle.graphql_text.proofs.buffer.Buffer.add_padded_then.Goals as goal

pub invariant_of-self : goal.invariant_of-self
invariant_of-self g c =
    let s = c.args.self.now in
    let padded = c.copy_to.new.bytes in
    let text = c.as_str.result.now in
    let front : take (length text) padded ≡ text = rw c.as_str.ensures c.copy_to.ensures in
    let joined = words_behind s.used c.size-size.result s.bytes padded text c.args.words.now (omega arith) (omega arith) front in
    let words = c.copy_piece.ensures ∙ c.as_bytes.ensures.value in
    let before = IsUtf8-append _ _ (IsUtf8-had _ s.utf8) c.as_str.utf8 in
    record {
      fits = omega (arith, piece_fits padded text front);
      utf8 = ∣ rw words (subst IsUtf8 (sym joined) (IsUtf8-append _ _ before c.utf8.words)) ∣₁;
    }

pub returns-then-words-room-clause-added : goal.returns-then-words-room-clause-added
returns-then-words-room-clause-added g c = λ _.
    let s = c.args.self.now in
    let text = g.P.Padded.text c.args.text.now in
    rw (c.as_str.ensures, c.copy_piece.ensures ∙ c.as_bytes.ensures.value)
    (words_behind s.used c.size-size.result s.bytes c.copy_to.new.bytes text c.args.words.now (omega arith) (omega arith) c.copy_to.ensures
    ∙ append_assoc (take s.used s.bytes) text c.args.words.now)
