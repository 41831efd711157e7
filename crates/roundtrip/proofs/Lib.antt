pub mod StepLaws
pub mod StartLaws
pub mod SealRoundtrip
pub mod TagRoundtrip
pub mod Unrefused
