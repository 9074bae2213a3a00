pub mod Kinds
pub mod Literals
pub mod Parts
pub mod Origins
pub mod Canonical
pub mod Signatures
pub mod Standing
