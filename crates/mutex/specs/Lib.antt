pub mod Mutex
