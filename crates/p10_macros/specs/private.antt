-- What only the clauses of private functions cite: how the code comes to what is promised.
pub mod Beginning
pub mod Links
pub mod Looking
pub mod Origins
pub mod Places
pub mod Putting
pub mod Running
pub mod Sets
pub mod Standing
pub mod Traces
pub mod KnownMacros
