pub mod OneElement
