pub mod PairWords
