-- Notions of private contracts: prefixes of orders, constraints, decided triples and restricted relations.
pub mod Beginning
pub mod Constrained
pub mod Deciding
pub mod Restricted
