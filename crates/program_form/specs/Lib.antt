-- The definitions that the contracts cite, in reading order.
pub mod Operators
pub mod Form
pub mod Handler
pub mod Key
pub mod Words
pub mod Kinds
pub mod Template
pub mod Program
pub mod FormView
pub mod HandlerView
pub mod KeyView
pub mod TemplateView
pub mod ProgramView
