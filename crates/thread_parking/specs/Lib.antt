pub mod ThreadParking
