pub mod Orders
pub mod Heaps
pub mod Queues
pub mod Offers
