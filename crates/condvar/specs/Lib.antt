pub mod Condvar
