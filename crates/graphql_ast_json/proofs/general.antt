-- Lemmas that know nothing of JSON.

-- what two clauses say of the value of an `Ok`, taken together
pub mod OkValues
