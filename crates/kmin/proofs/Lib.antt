pub mod Rereads
