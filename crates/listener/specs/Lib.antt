pub mod Listener
pub mod ListenerLaws
