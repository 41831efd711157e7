pub mod WfExample
