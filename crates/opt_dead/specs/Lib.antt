pub mod Dead
