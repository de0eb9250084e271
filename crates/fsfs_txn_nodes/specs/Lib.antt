pub mod TxnFolder
pub mod Memory
