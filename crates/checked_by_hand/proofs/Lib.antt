pub mod ByHand
