-- a tighter ceiling undoes no ruling; previews beside the rule call
pub mod LowerCeiling
pub mod PreviewLaws
