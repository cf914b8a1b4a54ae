pub mod GivingLemmas
