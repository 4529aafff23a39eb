pub mod Decoded
pub mod StoreView
pub mod PushView
pub mod Pushes
