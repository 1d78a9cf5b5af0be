-- Layer 3, its proposals.
pub mod Proposals
pub mod ProposalCases
