mod Examples
mod BlockLemmas
