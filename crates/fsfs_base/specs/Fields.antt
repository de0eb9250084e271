-- What stands in one field of a file: dates, digests, names of properties, revisions and transactions.
pub mod Dates
pub mod DateReading
pub mod Digests
pub mod PropNames
pub mod RevNums
pub mod TxnNames
