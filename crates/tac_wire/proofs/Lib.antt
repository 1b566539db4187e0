pub mod HeaderFacts
pub mod PadFacts
pub mod DoorFacts
pub mod CutFacts
pub mod StreamFacts
