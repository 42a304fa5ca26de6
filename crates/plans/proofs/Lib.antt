pub mod MaskLaws
pub mod StrideLaws
