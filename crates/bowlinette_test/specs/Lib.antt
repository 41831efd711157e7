pub mod CbcMac
pub mod Digest
