pub mod StarredFacts
