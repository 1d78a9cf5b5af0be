-- Layer 3, its rule: over any points and any proposals; which end of its pair is answered; then what it promises.
pub mod Rule
pub mod Nearer
pub mod RulePromise
