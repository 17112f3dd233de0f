-- Members of an object and elements of an array: what stands at a place, the steps over it, slots for the members with some names, and their laws.
pub mod Members
pub mod MemberLaws
pub mod Steps
pub mod StepLaws
pub mod Slots
pub mod SlotLaws
pub mod WalkLaws
pub mod Examples
