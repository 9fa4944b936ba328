use Rattle.std.proofs.Common.{refl}
use Rattle.graphql_values.proofs.types.print.write_end.Goals as goal

pub returns-in-EndOfList : goal.returns-in-EndOfList
returns-in-EndOfList g c = λ mode level. rw c.in-EndOfList.is (c.write_words.ensures.items mode level _ refl)

pub returns-in-EndOfNonNullList : goal.returns-in-EndOfNonNullList
returns-in-EndOfNonNullList g c = λ mode level. rw c.in-EndOfNonNullList.is (c.write_words-in-EndOfNonNullList.ensures.items mode level _ refl)
