-- What 01 demands of the calls, and that a contract is met by such calls alone
pub mod Demands
pub mod Contracts
pub mod Determined
pub mod Examples
-- The laws that they and the functions' proofs cite
pub mod Widths
pub mod Replies
pub mod Numbers
pub mod Judged
pub mod ToldLaws
pub mod FromFound
pub mod Writing
pub mod Rounds
pub mod Accepted
pub mod Books
pub mod Walking
pub mod Ruled
pub mod EitherKind
