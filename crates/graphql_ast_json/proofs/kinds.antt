-- Of the JSON of kinds.

-- of ValueJson: where JSON is of one kind of values, and of none of that kind, it is of no value
pub mod ValueJsonByKind
-- of TypeJson: the same of types
pub mod TypeJsonByKind
-- of ExecutableJson: the same of selections
pub mod SelectionJsonByKind
-- of ValueJson: lists of values and of fields are written item by item
pub mod ValueListsWritten
-- of ToldErrors: the kind of a value is one alone
pub mod ValueKinds
-- of ToldValues: the same, and values and fields one by one
pub mod ToldValueKinds
