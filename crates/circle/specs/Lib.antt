-- The circle that is shown: walks of exact length find it, and the lowest rule of each edge goes with it.
pub mod ShownIn
pub mod CircleOf
pub mod inner
