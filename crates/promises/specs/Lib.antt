-- What the customer is promised. Read Demand1, Demand2, Demand3, Figures, RequestFigures, Determined and Contracts; the
-- other files say words that the demands use.
-- Signs: `→` then, `×` and, `⊎` or, `¬` not, `↔` exactly when, `≡` is, `≢` is not, `x.f` the field f of x, `(x : T) →`
-- for every x, `(x : T) ×` for some x.
-- `Contracts` says that the contracts in the source are the meanings that the demands speak of, function by function:
-- `reading_of`, `step_of`, `turn_of` and so on.
pub mod Wire
pub mod BoardParts
pub mod Serials
pub mod BoardInRange
pub mod Groups
pub mod Meant
pub mod Typed
pub mod Numbers
pub mod Reply
pub mod ReaderInRange
pub mod RegisterInRange
pub mod StoredBytes
pub mod Rows
pub mod Fileable
pub mod Demand1
pub mod Demand2
pub mod Demand3
pub mod Figures
pub mod RequestFigures
pub mod Determined
pub mod Contracts
