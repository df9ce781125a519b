-- A faulty trace cut down.
pub mod Smaller
pub mod inner
