-- Laws of parts, for the crates above.
pub mod Part
pub mod Embeds
pub mod Removal
pub mod Picked
pub mod Alike
pub mod Down
pub mod Looks
