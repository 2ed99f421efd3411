pub mod PlainCore
