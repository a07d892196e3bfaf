pub mod Fronts
pub mod FieldSteps
pub mod MemberSteps
pub mod Repeated
pub mod ValueSteps
pub mod Written
