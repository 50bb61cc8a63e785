mod Walks
mod Nodes
