-- What 02 demands of the calls, and that a contract is met by such calls alone
pub mod Demands
pub mod Contracts
pub mod Determined
pub mod Examples
-- The laws that they cite
pub mod Tellings
pub mod Cutting
pub mod Layouts
pub mod Places
pub mod Remains
pub mod Numbers
pub mod Finding
pub mod ReadAs
pub mod Alike
pub mod Walks
pub mod Titles
pub mod AlikeTexts
pub mod PlainForm
pub mod ReadBack
pub mod PlainExample
-- The laws that the functions' proofs cite
pub mod Lines
pub mod Bases
pub mod Bytes
pub mod Scanning
pub mod LineEnds
pub mod Others
pub mod Passing
pub mod Counting
pub mod Putting
pub mod Replies
