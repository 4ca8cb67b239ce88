pub mod Met
