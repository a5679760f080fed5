-- The laws of the crate's definitions. Callers' proofs cite PlanLaws, RoomLaws, TellLaws and MeantLaws.
pub mod PlanLaws
pub mod StepLaws
pub mod RoomLaws
pub mod TellLaws
pub mod MeantLaws
