-- What is right, over any frame and any table of kept pairs: Frame and Order have valid orders, Rules to Circle what is forced, Verdict what is said.
pub mod Rules
pub mod RuleTests
pub mod ComputedRounds
pub mod ComputedWalks
pub mod Closing
pub mod Circle
pub mod ShownCircle
pub mod Missing
pub mod inner
pub mod Frame
pub mod Order
pub mod Verdict
pub mod Ready
pub mod Seen
