-- What a reader must believe of the layer tables.
pub mod Bytes
pub mod Names
pub mod Kinds
pub mod Items
pub mod Search
pub mod Rules
pub mod RulesTally
pub mod Change
pub mod Order
pub mod Sorted
pub mod RulesOrder
