-- Layer 4: from eight words to an answer; the call with partials; then what both calls promise. Read the files in this order.
pub mod Call
pub mod WithPartials
pub mod CallPromise
